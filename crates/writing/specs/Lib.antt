-- E code of a block as it is written into a lent slice.
pub mod Rows
pub mod Switches
pub mod Block
