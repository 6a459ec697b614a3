pub mod Causes
pub mod Lines
pub mod MemPorts
pub mod Reports
