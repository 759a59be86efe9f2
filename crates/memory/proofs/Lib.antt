pub mod Dues
pub mod Queued
