-- The wait that is reached: a run in which the last packet of a stream's message waits exactly its queue figure. Assumes nothing.
pub mod Critical
pub mod OneLane
pub mod Fill
pub mod Worth
pub mod Reached
