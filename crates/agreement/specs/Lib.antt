pub mod Calls
pub mod Seats
pub mod Runs
pub mod Law
