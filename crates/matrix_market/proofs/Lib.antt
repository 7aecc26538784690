pub mod AcceptedFile
pub mod Decimal
pub mod Examples
pub mod File
pub mod FileOf
pub mod FileRead
pub mod Members
pub mod Text
