pub mod Answers
pub mod Speeds
pub mod Flat
