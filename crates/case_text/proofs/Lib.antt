-- Laws that the proofs share.
pub mod TextLaws
pub mod ItemLaws
