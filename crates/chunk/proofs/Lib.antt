pub mod Turn
pub mod Quick
pub mod Accepted
pub mod Frame
pub mod Examples
pub mod Refusals
