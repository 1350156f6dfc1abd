pub mod TickLaws
pub mod FrameLaws
pub mod PacketLaws
pub mod GapLaws
pub mod Unique
pub mod Wiring
