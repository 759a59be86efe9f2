pub mod Places
pub mod Finds
pub mod Moves
pub mod Sweeps
pub mod Hears
pub mod Searches
pub mod Openings
