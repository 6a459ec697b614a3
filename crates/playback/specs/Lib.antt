pub mod Arriving
pub mod Fates
pub mod Unplanned
pub mod Written
pub mod Finds
pub mod Told
pub mod Laws
pub mod Whole
