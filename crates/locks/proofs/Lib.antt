pub mod Small
pub mod Shown
