pub mod Sizes
pub mod Lines
pub mod Hearing
pub mod Heeding
pub mod Views
