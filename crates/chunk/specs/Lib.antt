pub mod Chunk
pub mod Answer
pub mod Marks
