pub mod PrintedLaws
pub mod SaidLaws
pub mod ReadLaws
pub mod Texts
pub mod PackLaws
pub mod Unique
pub mod Packing
