pub mod PlaceLaws
pub mod SameLaws
pub mod SpelledLaws
pub mod WordLaws
pub mod PrintedLaws
pub mod PassedLaws
pub mod Unique
