pub mod AnyLaws
pub mod WordLaws
pub mod SetLaws
pub mod WalkLaws
