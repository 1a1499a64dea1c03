mod CaseMeanings
pub mod NameLaws
pub mod TableLaws
pub mod TermLaws
pub mod TreeLaws
pub mod KnownLaws
pub mod AboveLaws
pub mod CountedLaws
pub mod PlaceLaws
pub mod NarrowLaws
pub mod SortLaws
pub mod NewLaws
pub mod GroundLaws
pub mod TreeSortLaws
pub mod LineSortLaws
pub mod FaultLaws
pub mod CheckLaws
