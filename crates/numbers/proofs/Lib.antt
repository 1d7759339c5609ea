pub mod Replied
pub mod Owned
