-- Lists, tests over ranges of numbers, and sums.
pub mod Test
pub mod Every
pub mod Select
pub mod Sum
pub mod Place
pub mod Tabulate
pub mod Overwrite
pub mod Written
pub mod Cells
pub mod Rising
