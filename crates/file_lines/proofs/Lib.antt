pub mod ScanLaws
pub mod FieldLaws
pub mod PlaceLaws
pub mod PlainLaws
