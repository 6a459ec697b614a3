pub mod Views
pub mod Notes
