pub mod Sheet
pub mod Walks
