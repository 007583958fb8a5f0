pub mod Cases
pub mod Witness
