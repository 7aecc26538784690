-- Numbers whose bits are set in a list of words, counted and listed.
pub mod Zeros
pub mod Listed
pub mod WordNumbers
pub mod BitsListed
pub mod Counted
