-- Pairs of a result of whole numbers: the entry, and 8 and 20 of many pairs.
pub mod Worst
pub mod Entry
