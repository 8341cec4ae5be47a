pub mod Beginnings
pub mod Files
pub mod Committing
pub mod Fronts
pub mod Answering
pub mod Causes
