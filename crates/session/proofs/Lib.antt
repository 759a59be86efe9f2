pub mod Unique
pub mod Owing
pub mod Looking
pub mod Zeros
pub mod Making
pub mod Performing
pub mod Texting
pub mod Existing
