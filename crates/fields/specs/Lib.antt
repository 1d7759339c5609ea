pub mod Le
pub mod Part
pub mod Same
