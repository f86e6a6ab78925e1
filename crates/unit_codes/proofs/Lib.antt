pub mod SpanLaws
pub mod OrderLaws
pub mod CodeLaws
pub mod WriteLaws
