-- Marked pairs of a scratch, and their queue.
pub mod MarkedPairs
