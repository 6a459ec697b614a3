mod Examples
pub mod Tests
pub mod Records
pub mod HeaderLaws
pub mod HeaderParts
pub mod Written
pub mod BlockLaws
pub mod BlockParts
pub mod Recordings
pub mod WholePackets
pub mod SentBack
pub mod Sizes
pub mod ReadBack
pub mod Plain
pub mod Longer
