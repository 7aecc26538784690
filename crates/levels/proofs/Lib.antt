pub mod InsertLaws
pub mod BackLaws
pub mod WriteLaws
