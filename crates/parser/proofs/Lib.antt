pub mod LineLaws
pub mod FieldsLaws
pub mod FillLaws
pub mod MistakeLaws
pub mod TallyLaws
pub mod RightLaws
pub mod ReadLaws
pub mod Unique
