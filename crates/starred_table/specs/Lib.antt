-- The starred cases of document 01: the calls that they make, the table of what these give, and what a reply shows.
pub mod Calls
pub mod Answer
pub mod Table
pub mod Counts
pub mod Entries
pub mod Stabilized
