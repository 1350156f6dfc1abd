pub mod Tick
pub mod Frame
pub mod Packets
pub mod AsIpCuts
pub mod Gap
pub mod Offered
