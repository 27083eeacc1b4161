-- The worst-case run of a supplier's schedule code over the round of each mode, as it is counted from the lent tables.
pub mod Course
pub mod Breaks
