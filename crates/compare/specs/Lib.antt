pub mod Course
pub mod Compare
pub mod Passing
pub mod Compared
