pub mod AsciiTest
