pub mod Lists
pub mod Counting
pub mod Places
pub mod Corners
pub mod Strides
