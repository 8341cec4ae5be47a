pub mod Accepting
pub mod Door
