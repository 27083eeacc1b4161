-- The refusals of tables in two parts, and a refusal of a list by its number.
pub mod Asked
pub mod Parts
