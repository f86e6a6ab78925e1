pub mod LandLaws
pub mod GoodLaws
pub mod RowLaws
pub mod AnchorLaws
pub mod FitsLaws
pub mod RowsLaws
pub mod CodedLaws
pub mod RoomLaws
