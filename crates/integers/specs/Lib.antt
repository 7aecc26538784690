-- Integers: ring laws, finite sums, matrices, the inverse of a matrix times its transpose; their order, the lesser and the greater of two, and sizes.
pub mod Integer
pub mod Sum
pub mod Matrix
pub mod Inverse
pub mod PivotInverse
pub mod MinMax
pub mod Size
