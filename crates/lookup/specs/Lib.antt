pub mod Lookup
pub mod Step
pub mod Complete
pub mod Counted
pub mod Blocks
pub mod Reply
