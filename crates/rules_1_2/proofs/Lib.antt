-- The tables by their place, as the searches go through them.
pub mod Rows
