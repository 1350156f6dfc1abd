pub mod Limits
pub mod Names
pub mod Layout
pub mod Fields
pub mod Rows
pub mod Sizes
pub mod Promises
