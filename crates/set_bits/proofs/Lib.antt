pub mod ZeroLaws
pub mod ListedLaws
pub mod WordLaws
pub mod BitsLaws
pub mod CountLaws
