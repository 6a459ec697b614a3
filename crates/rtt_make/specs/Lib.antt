pub mod Mades
