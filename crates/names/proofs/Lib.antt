pub mod Alikes
pub mod Examples
pub mod Laws
pub mod Orders
pub mod Steps
