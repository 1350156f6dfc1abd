pub mod HeaderLaws
pub mod RowLaws
pub mod ListLaws
pub mod ExamineLaws
pub mod RoomLaws
pub mod Unique
pub mod Wiring
