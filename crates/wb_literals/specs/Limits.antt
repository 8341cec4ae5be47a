pub mod Literals
pub mod Mappings
