-- A floor under variances.
pub mod PositiveMean
pub mod PositiveMeanLaws
pub mod VarianceFloor
pub mod VarianceFloorLaws
pub mod Floored
pub mod FlooredLaws
pub mod Floor
pub mod Laws
pub mod Examples
