pub mod ReadLaws
pub mod ListLaws
pub mod FileLaws
pub mod NumberLaws
pub mod WriteLaws
pub mod BackLaws
pub mod UseLaws
