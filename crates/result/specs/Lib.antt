-- Results in compressed columns: the place of a row, the lookup, the diagonal list.
pub mod Place
pub mod Digits
pub mod Looks
pub mod Lookup
pub mod Counted
pub mod Halving
pub mod Examples
