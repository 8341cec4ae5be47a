pub mod Encodings
pub mod Counts
pub mod Told
pub mod Puts
pub mod Several
pub mod Lines
pub mod InTurn
pub mod OnTheWire
