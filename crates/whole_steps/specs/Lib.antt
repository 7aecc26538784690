-- Signed 64-bit numbers as whole numbers.
pub mod Machine
