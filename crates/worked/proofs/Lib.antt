pub mod Passing
pub mod Witnessed
