pub mod Refusals
pub mod Reading
pub mod WrittenLines
pub mod DefinitionText
pub mod Layout
pub mod ConstructorAt
