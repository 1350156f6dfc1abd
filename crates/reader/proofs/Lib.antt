pub mod ReferringLaws
pub mod HopLaws
pub mod AnsweringLaws
pub mod FillLaws
pub mod Unique
pub mod Wiring
