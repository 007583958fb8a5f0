pub mod Lines
pub mod Settings
pub mod Held
pub mod Sequence
pub mod Commands
pub mod Outputs
