pub mod LineLaws
pub mod AskLaws
pub mod OpenLaws
pub mod RunLaws
pub mod OneByOne
