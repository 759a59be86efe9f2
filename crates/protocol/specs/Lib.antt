pub mod Unknown
pub mod States
pub mod Transactions
pub mod Cells
pub mod CellNames
pub mod Published
pub mod Tables
pub mod Flattened
