pub mod Grants
pub mod Added
pub mod Anew
pub mod Begun
pub mod Opened
pub mod Regrant
