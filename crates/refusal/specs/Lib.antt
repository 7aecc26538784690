-- Refusals: the lowest step decides.
pub mod Steps
pub mod Groups
pub mod FirstOf
pub mod Refusal
pub mod Bounds
