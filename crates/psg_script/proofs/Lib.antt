pub mod WordLemmas
pub mod NumberLemmas
pub mod StepLemmas
pub mod PartLemmas
pub mod FormLemmas
pub mod SameLemmas
pub mod LineLemmas
