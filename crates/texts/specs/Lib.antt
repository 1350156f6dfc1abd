pub mod Texts
pub mod Packing
