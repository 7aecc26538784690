pub mod LayoutLaws
pub mod LayoutFacts
