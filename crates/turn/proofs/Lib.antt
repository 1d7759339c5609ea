pub mod Turns
pub mod Falling
pub mod Refusals
