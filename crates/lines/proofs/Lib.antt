pub mod DecimalLaws
pub mod LineLaws
