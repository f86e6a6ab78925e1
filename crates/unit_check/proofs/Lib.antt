pub mod SoonLaws
pub mod FindLaws
pub mod FinderLaws
pub mod HeldLaws
pub mod RestLaws
pub mod ImageLaws
pub mod WriteLaws
pub mod StageLaws
