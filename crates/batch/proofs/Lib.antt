pub mod Asked
pub mod Results
pub mod Called
pub mod Theorems
