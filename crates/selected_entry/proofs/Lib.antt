-- What the proof of the one function rests on.
pub mod Read
pub mod Worked
