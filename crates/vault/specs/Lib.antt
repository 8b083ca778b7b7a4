pub mod Vaults
pub mod Questions
pub mod SetUps
pub mod Laws
