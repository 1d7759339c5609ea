pub mod Scan
pub mod Complete
