-- Filling result lists from marked pairs: the choice between the two routes, and all of it.
pub mod Agree
pub mod KeptPattern
pub mod Routes
pub mod Fill
