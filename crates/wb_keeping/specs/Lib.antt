pub mod Granting
pub mod Anew
pub mod Opening
