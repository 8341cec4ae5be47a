pub mod Written
pub mod Commands
