pub mod Steps
pub mod Behind
pub mod Groups
pub mod Good
pub mod Counts
pub mod Examples
