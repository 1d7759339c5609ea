pub mod Steps
pub mod Completed
pub mod Agreed
