-- The diagonal in original order with a limit: refusals, reply, lists and the exact case.
pub mod Original
pub mod ExactDiagonal
pub mod Worked
