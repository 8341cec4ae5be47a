pub mod Built
pub mod Getters
pub mod Only
pub mod Parsed
