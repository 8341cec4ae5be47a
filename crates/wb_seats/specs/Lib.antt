pub mod Serving
pub mod Costs
pub mod Early
pub mod Words
pub mod Days
pub mod Hosting
