pub mod Items
pub mod Noting
pub mod Packets
