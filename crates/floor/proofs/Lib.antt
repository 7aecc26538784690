pub mod Applied
pub mod Answer
