pub mod RowLaws
pub mod TableRows
