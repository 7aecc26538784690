-- Covariances of row pairs of two operators: refusals, reply, lists and the exact case.
pub mod Covariances
pub mod ExactCovariances
