-- Selected entries: what the call replies and leaves.
pub mod Selected
pub mod ExactReply
pub mod Worked
