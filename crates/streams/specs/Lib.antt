-- What one read or one write answers.
pub mod Counts
