pub mod Steps
pub mod Groups
pub mod Good
