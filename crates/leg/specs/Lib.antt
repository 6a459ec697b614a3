pub mod Sound
pub mod Items
pub mod Gives
pub mod Feds
pub mod Answers
pub mod Laws
pub mod Done
