pub mod Counted
pub mod Coverage
pub mod Digits
pub mod Examples
pub mod Halving
pub mod Laws
pub mod Looks
pub mod Place
