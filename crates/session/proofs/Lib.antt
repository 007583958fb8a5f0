pub mod Fields
pub mod Steps
pub mod Back
pub mod Progress
