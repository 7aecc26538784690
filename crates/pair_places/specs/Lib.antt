-- What reading a pair's position asks.
pub mod Position
