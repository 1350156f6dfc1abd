pub mod FieldLaws
pub mod KeywordLaws
pub mod NameLaws
pub mod Unique
