pub mod Links
pub mod Queues
pub mod Ports
pub mod Rows
pub mod Refusals
