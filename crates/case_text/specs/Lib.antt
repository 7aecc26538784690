-- Cases given as text.
pub mod Text
pub mod Items
pub mod Fields
pub mod Examples
