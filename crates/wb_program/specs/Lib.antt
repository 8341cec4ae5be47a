pub mod KeptSeats
pub mod Files
pub mod Doing
pub mod KeptDays
pub mod Telling
pub mod KeptStays
pub mod Stays
