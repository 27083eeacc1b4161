-- A reading, and when it lies in an interval.
pub mod Reading
