mod CaseForms
mod ClosingLaws
mod CountLaws
mod EntryLaws
mod FileLaws
mod FixedLaws
mod FormLaws
pub mod HeadLaws
mod ConstructorLaws
mod ItemLaws
mod ItemKinds
mod WordLaws
pub mod LineInverses
pub mod Lists
mod Options
pub mod NumberLaws
mod PieceLaws
mod PlaceLaws
mod PartLaws
mod PartReads
mod QuoteLaws
pub mod SpellLaws
mod ReadLaws
mod Stages
mod TermStepLaws
mod TailLaws
mod TermFormLaws
mod TermFormReads
mod TermFound
mod TermWalkLaws
mod TreeFitLaws
mod TreeFound
mod TreeLeads
mod TreeMoves
mod TreeOverLaws
mod TreeStageLaws
mod TreeWalkLaws
mod WrittenLaws
mod LineTextLaws
mod OnceParts
mod OnceLines
