-- The closure route: the recurrence over any closed set, and the sums of its columns.
pub mod Part
pub mod Run
pub mod Products
pub mod Column
pub mod Sums
pub mod Rest
pub mod Stored
pub mod Lower
pub mod Upper
pub mod Finish
pub mod Route
