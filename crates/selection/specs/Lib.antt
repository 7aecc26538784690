-- Selected entries: refusals, answer and lists.
pub mod RequestSteps
pub mod Diagnosis
pub mod Selection
pub mod Call
pub mod LdlCall
pub mod SamePositions
