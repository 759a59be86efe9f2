pub mod Behind
pub mod Ends
