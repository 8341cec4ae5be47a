pub mod Sizes
pub mod Reshaped
pub mod ReshapeLaw
pub mod Pieces
pub mod Defaults
pub mod Counts
