-- What the proofs of several functions share.
pub mod AgreeLaws
pub mod KeptLaws
pub mod ChoiceLaws
pub mod Fill
