pub mod Base
pub mod Le
pub mod Lists
pub mod Parts
pub mod Same
pub mod Tests
