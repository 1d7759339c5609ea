pub mod ChunkFields
