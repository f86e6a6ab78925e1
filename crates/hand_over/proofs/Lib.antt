pub mod SortedLaws
pub mod MarkLaws
pub mod HandOverLaws
