-- The recurrence of Takahashi, Fagan and Chin for entries of an inverse.
pub mod Entries
pub mod Recurrence
