pub mod Encoding
pub mod Pieces
pub mod Replies
pub mod Printed
pub mod Machine
pub mod Histories
