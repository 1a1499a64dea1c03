pub mod Walks
pub mod Judgements
pub mod Tellings
pub mod Hovers
