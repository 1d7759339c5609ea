pub mod Halving
pub mod Capped
pub mod Same
