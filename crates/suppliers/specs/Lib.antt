-- Numbers 12 to 15: windows, schedule rows, and the verdict on a supplier's schedule code.
pub mod Windows
pub mod Schedule
pub mod Delays
pub mod Supplier
