pub mod Quickref
