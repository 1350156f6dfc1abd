pub mod Network
pub mod Views
pub mod Link
pub mod References
pub mod ReferenceFacts
pub mod Ranges
