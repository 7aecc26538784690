-- The diagonal in original order: refusals, reply, lists and the exact case.
pub mod Original
pub mod ExactDiagonal
pub mod Worked
