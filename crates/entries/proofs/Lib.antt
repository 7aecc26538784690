pub mod Descendants
pub mod Entries
pub mod Position
pub mod WholeTable
