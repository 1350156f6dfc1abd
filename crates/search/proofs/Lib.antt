pub mod FlowLaws
pub mod SpanLaws
pub mod EvenLaws
pub mod Ways
pub mod PassLaws
pub mod TurnLaws
pub mod Unique
pub mod Wiring
