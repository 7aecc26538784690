-- Matrix Market's coordinate files of requests.
pub mod Text
pub mod File
pub mod Decimal
pub mod FileOf
pub mod Examples
pub mod AcceptedFile
pub mod FileRead
