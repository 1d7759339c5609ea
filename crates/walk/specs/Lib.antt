pub mod Walk
pub mod Exact
