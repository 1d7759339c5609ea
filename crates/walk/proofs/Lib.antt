pub mod Entering
pub mod Standing
pub mod Falling
pub mod Refusals
