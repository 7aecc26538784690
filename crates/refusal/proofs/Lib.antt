pub mod FirstOf
pub mod Groups
pub mod Returned
pub mod Steps
pub mod Told
