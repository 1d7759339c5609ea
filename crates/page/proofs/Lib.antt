pub mod Writing
pub mod Paging
pub mod Paged
pub mod Refusals
