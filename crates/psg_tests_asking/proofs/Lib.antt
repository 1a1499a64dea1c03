pub mod KnownLaws
