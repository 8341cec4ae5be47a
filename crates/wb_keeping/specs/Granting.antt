pub mod Beginning
pub mod Granting
pub mod Leading
