pub mod Boards
pub mod BoardRuns
pub mod Cables
