pub mod EdgeLaws
pub mod CountLaws
pub mod BoundLaws
pub mod JoinedLaws
