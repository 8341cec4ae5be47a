pub mod Doings
pub mod Texts
pub mod Words
