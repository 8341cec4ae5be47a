pub mod Elements
pub mod Pieces
pub mod Reductions
pub mod Shares
pub mod Ways
