pub mod Head
pub mod Plan
