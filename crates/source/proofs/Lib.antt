pub mod Rows
pub mod Inputs
pub mod Kept
pub mod Unpadded
