pub mod Cuts
pub mod Lines
pub mod Draining
pub mod Playing
pub mod Laws
pub mod ReadBack
