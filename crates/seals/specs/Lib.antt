pub mod Scratch
pub mod Opening
pub mod Opened
pub mod Sealing
