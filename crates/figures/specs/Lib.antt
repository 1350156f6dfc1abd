pub mod Figures
pub mod Computing
pub mod Gathering
pub mod Judging
