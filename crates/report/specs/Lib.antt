pub mod Failures
pub mod Explained
pub mod Demuxed
