pub mod Headers
pub mod Layout
