pub mod FileHeader
