pub mod Closures
pub mod Writing
pub mod Longest
