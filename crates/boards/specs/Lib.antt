pub mod Boards
pub mod Rows
pub mod Keypads
pub mod Wheels
pub mod WheelBoards
