pub mod PairLaws
pub mod RowLaws
pub mod CellLaws
pub mod WholeLaws
pub mod MoveLaws
pub mod LineLaws
pub mod KeepLaws
pub mod FileLaws
