-- E code as it is written into a lent slice.
pub mod Written
