pub mod Replies
pub mod Posting
pub mod Calls
