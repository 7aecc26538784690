-- What reads back after a call, and the exact case.
pub mod ReadBack
pub mod Recurrence
pub mod DyadicEntries
pub mod PivotEntries
pub mod ExactEntries
pub mod Count
pub mod Worked
pub mod DyadicWorked
pub mod PivotWorked
