pub mod Reading
pub mod Behind
pub mod Seated
pub mod Ending
pub mod PortNotTold
