pub mod Inserted
pub mod Told
pub mod Made
pub mod Found
pub mod Rebuilt
