pub mod Bind
pub mod Fields
pub mod Parts
pub mod Spans
pub mod Reads
pub mod Form
