pub mod Coming
pub mod Lending
