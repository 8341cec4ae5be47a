pub mod Storing
pub mod Columnwise
pub mod Linewise
pub mod Agreeing
pub mod Fitting
pub mod Placewise
pub mod Finding
pub mod Fronts
