pub mod Exact
pub mod Kept
pub mod There
pub mod Demand1
pub mod Demand2
pub mod Demand3
pub mod Whole
