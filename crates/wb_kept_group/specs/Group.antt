pub mod Books
pub mod Keeping
