-- What is written is read back.
pub mod Spelled
pub mod Ranges
pub mod Mappings
pub mod Items
pub mod Sets
pub mod Elements
pub mod Lines
