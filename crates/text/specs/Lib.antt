pub mod Text
pub mod Refusal
pub mod Gains
