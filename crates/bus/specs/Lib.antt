pub mod Totals
pub mod Logs
pub mod Machines
pub mod Choices
