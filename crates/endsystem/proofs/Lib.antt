pub mod FlatLaws
pub mod Unique
