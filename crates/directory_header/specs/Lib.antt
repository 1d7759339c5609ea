pub mod DirectoryHeader
