pub mod Contents
pub mod QuotedParts
pub mod LineLaws
pub mod Firsts
