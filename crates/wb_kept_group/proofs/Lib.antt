pub mod Groups
pub mod Joining
