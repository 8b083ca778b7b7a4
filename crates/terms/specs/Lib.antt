pub mod Numbers
pub mod Refusals
pub mod Sizes
pub mod Parties
