pub mod Rows
pub mod Turning
pub mod Made
