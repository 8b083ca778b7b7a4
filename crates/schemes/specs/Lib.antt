pub mod Rows
pub mod Sip
pub mod Sheet
pub mod Kinds
