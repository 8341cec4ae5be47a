pub mod Lines
pub mod KeptCourses
pub mod Files
pub mod Answering
pub mod Committing
pub mod Settling
