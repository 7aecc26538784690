-- Operator variances: refusals, reply, lists and the exact case.
pub mod Transformed
pub mod ExactVariances
