-- The selected inverse by f64, where it is exact.
pub mod Multiple
pub mod Exact
pub mod Factor
pub mod ExactCase
pub mod PivotCase
pub mod PivotMultiples
pub mod Checked
pub mod Exceeds
pub mod Examples
