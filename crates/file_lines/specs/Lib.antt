-- Reading a text from a place on.
pub mod Scan
pub mod Places
