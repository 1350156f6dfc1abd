pub mod RouteLaws
pub mod RowLaws
pub mod JoinLaws
pub mod GivenLaws
pub mod Unique
pub mod Wiring
