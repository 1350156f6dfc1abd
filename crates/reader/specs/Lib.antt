pub mod Reading
pub mod Referring
