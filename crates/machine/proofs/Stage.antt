-- One stage by itself, over any jobs: a queue, a mux, a FIFO; what it can hold, and how long what comes in takes. No network. Assumes nothing.
pub mod Parts
pub mod Lindley
pub mod Flows
pub mod Delay
pub mod Envelope
pub mod Select
pub mod Moves
pub mod LinkLaws
pub mod FifoLaws
pub mod QueueSteps
pub mod QueueLaws
pub mod MuxLaws
