pub mod ElementLaws
pub mod CallLaws
