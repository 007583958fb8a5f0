pub mod Refusals
pub mod Entries
pub mod Events
pub mod Kinds
pub mod Runs
