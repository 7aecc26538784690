-- The diagnosis of a selected inverse.
pub mod Diagnosis
