pub mod Calls
pub mod Device
pub mod Laws
pub mod Noted
