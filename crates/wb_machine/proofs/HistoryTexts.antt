pub mod Unbroken
pub mod LastLine
pub mod Heading
pub mod Below
pub mod Steps
pub mod Same
pub mod Asked
pub mod KeptAsked
