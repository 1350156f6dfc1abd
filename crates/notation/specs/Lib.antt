pub mod Notation
pub mod Meant
pub mod Printed
pub mod Back
pub mod Steps
pub mod Fitted
pub mod Called
