pub mod Choice
pub mod Entries
pub mod Recurrence
