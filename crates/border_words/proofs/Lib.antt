pub mod FillLaws
pub mod SideLaws
pub mod AllLaws
