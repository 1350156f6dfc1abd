pub mod Bits
pub mod Place
pub mod Rows
pub mod Tables
