-- The stages of a network one after the other, from release to the last destination, by the windows that the rows' figures are. Assumes nothing.
pub mod Told
pub mod Trace
pub mod Auto
pub mod Windows
pub mod Covers
pub mod Routes
pub mod Arrivals
pub mod Queues
pub mod Ends
pub mod Ports
pub mod Theorem
pub mod Stopped
