pub mod RowsUnder
