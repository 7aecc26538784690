pub mod ReadingLaws
pub mod Filled
pub mod Output
