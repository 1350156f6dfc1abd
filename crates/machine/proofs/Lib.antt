pub mod Lists
pub mod Stage
pub mod AFewTicks
pub mod TwoVls
pub mod Network
pub mod Wait
pub mod OverNetworks
pub mod Whole
