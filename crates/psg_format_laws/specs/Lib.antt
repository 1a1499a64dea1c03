pub mod Formats
