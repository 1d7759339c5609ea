pub mod Stepping
pub mod Owning
pub mod Run
pub mod Listed
pub mod Refusals
