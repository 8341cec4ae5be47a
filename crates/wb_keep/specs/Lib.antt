pub mod Disk
pub mod Keep
pub mod Lines
pub mod Repair
pub mod Run
pub mod Reading
