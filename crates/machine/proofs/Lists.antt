-- Lists and sums: what the lemmas of the machine need of numbers, lists and turns. Stands on specs and on base. Assumes nothing.
pub mod Cases
pub mod Sums
pub mod Turns
pub mod Lanes
pub mod Orders
pub mod Spaced
pub mod Start
