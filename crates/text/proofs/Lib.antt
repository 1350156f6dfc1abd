pub mod PutLaws
pub mod DecimalLaws
pub mod LineLaws
pub mod GainLaws
pub mod Unique
