pub mod Offset
pub mod Chains
pub mod Never
pub mod Partners
