pub mod Choices
pub mod Faults
pub mod Lines
pub mod Reading
pub mod Runs
pub mod Setups
pub mod Texts
pub mod Written
