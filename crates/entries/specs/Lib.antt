-- The entries of a selected inverse as lists.
pub mod Entries
pub mod Position
pub mod WholeTable
