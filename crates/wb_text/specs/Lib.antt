pub mod Numbers
pub mod Literals
pub mod Lines
pub mod Said
pub mod Laws
pub mod Parsed
pub mod FromLines
pub mod Texts
