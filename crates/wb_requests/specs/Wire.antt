pub mod Table
pub mod Spelled
pub mod Faults
pub mod Encoded
pub mod Proper
pub mod Laws
