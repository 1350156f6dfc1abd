pub mod Words
pub mod Places
pub mod Found
pub mod Printed
