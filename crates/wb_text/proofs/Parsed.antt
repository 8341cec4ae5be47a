pub mod Names
pub mod Listing
pub mod Back
pub mod Meant
pub mod Book
