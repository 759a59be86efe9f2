pub mod Views
pub mod Histories
pub mod Calls
pub mod Openings
pub mod Closings
pub mod Replayed
