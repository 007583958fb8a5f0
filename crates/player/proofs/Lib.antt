pub mod Playing
pub mod Lines
