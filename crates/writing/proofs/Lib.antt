pub mod Lengths
pub mod RowMaps
pub mod Rows
