pub mod Standing
pub mod Agreed
pub mod Steps
