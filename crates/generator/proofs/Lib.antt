pub mod StateLaws
pub mod BitLaws
pub mod DrawLaws
pub mod WriteLaws
pub mod FileLaws
pub mod RunLaws
pub mod Promise
