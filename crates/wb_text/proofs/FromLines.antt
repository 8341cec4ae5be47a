pub mod Inserts
pub mod Owners
pub mod Built
pub mod WellMade
pub mod Returned
pub mod SoundSaid
pub mod Steps
pub mod ComingBack
