pub mod Integer
pub mod Inverse
pub mod Matrix
pub mod MinMax
pub mod Order
pub mod PivotInverse
pub mod Size
pub mod Sum
