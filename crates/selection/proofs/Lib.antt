pub mod Call
pub mod Diagnosis
pub mod LdlCall
pub mod RequestSteps
pub mod SamePositions
pub mod Selection
pub mod Status
