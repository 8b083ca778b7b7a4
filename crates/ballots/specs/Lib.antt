pub mod Counts
pub mod Kinds
