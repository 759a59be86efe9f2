pub mod Ages
pub mod Buffers
pub mod Lines
pub mod Words
pub mod Cuts
pub mod Buffered
pub mod Covers
