pub mod Faults
pub mod Sent
