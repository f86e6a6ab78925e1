pub mod WalkLaws
pub mod LinkLaws
