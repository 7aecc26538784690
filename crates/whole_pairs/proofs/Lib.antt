pub mod Entry
pub mod FaultsLaws
pub mod Worst
