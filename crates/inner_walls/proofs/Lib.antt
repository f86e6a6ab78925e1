pub mod FindLaws
pub mod InnerLaws
pub mod NoneLaws
