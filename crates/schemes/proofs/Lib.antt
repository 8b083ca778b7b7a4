pub mod Sums
pub mod Words
