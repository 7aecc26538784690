-- Selected entries of a factor with pivots.
pub mod LdlEntries
pub mod LdlReply
pub mod LdlSame
pub mod DivOne
pub mod LdlOnes
pub mod Examples
pub mod Worked
