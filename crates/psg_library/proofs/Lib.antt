pub mod HeadWords
pub mod FirstLines
pub mod TextLaws
pub mod OneReading
pub mod Plain
pub mod Written
