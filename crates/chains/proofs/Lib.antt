pub mod Before
pub mod Chain
pub mod ChainOf
pub mod Distance
pub mod Examples
pub mod Least
pub mod Levels
pub mod Same
