pub mod PartLaws
pub mod PartLists
pub mod UniteLaws
pub mod FloodLaws
pub mod ForestLaws
