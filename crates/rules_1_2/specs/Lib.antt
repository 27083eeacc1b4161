-- Number 2 by the place of a table.
pub mod Rows
