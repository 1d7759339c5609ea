pub mod Halving
pub mod Halvings
