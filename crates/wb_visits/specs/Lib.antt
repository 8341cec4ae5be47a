pub mod Binding
pub mod NoSeat
