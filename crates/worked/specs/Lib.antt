-- The programs of the worked table, and what the definitions compute with.
pub mod Computed
pub mod Programs
pub mod Systems
pub mod Example
pub mod Insulation
pub mod Filters
pub mod Blocks
pub mod Broken
pub mod Crowded
