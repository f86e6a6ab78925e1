pub mod OwnLaws
pub mod NearLaws
