pub mod Writes
pub mod Resized
pub mod Users
pub mod Fills
pub mod Dropped
pub mod Sources
pub mod Laws
