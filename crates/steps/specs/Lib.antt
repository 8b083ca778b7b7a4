pub mod Steps
pub mod Laws
pub mod Voices
pub mod Ranges
pub mod RangeLaws
pub mod Outputs
