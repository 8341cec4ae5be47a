pub mod Encodings
pub mod Pieces
pub mod Texts
pub mod HistoryTexts
