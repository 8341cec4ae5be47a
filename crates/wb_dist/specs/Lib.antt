pub mod Axis
pub mod Grid
pub mod Maps
pub mod Kept
pub mod Inverse
pub mod Layouts
pub mod LayoutInverse
pub mod Same
