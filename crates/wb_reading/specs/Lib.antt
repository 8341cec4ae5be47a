pub mod Laid
pub mod Reading
