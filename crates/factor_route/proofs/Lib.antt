pub mod MarkLaws
pub mod ScatterLaws
pub mod WalkLaws
pub mod LaidLaws
pub mod RouteLaws
pub mod PatternLaws
