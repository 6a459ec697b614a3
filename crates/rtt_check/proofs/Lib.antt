pub mod Counting
pub mod Numbered
pub mod Hearing
pub mod Pieces
pub mod Asking
