pub mod ListLaws
pub mod Answer
pub mod Laws
pub mod Worked
