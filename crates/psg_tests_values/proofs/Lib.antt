pub mod ColumnSorts
