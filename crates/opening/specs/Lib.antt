pub mod Opened
pub mod Passes
pub mod Refusals
