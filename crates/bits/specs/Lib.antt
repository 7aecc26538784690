-- Bits of a list of words.
pub mod Bits
