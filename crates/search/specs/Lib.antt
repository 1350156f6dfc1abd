pub mod Flows
pub mod Spans
pub mod Pass
pub mod Turn
pub mod Searching
