pub mod DiagonalLaws
pub mod KeptBy
