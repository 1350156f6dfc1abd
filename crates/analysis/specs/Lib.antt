pub mod Analysis
pub mod Placing
