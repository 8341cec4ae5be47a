pub mod Labels
pub mod Packed
pub mod Merge
pub mod Places
pub mod Subset
