pub mod Cuts
pub mod Moments
pub mod Numbers
pub mod Replaced
pub mod Writes
