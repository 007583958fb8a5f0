pub mod Readings
pub mod Lanes
