pub mod Choice
pub mod Rules
pub mod Letters
