pub mod Lines
pub mod Demuxing
