-- Numbers of tables, columns, limits, refusal numbers.
pub mod Cell
pub mod Codes
pub mod Columns
pub mod Limits
pub mod Refusals
