pub mod LookLaws
pub mod MarkLaws
pub mod ListingLaws
