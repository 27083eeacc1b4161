-- What an advance is lent.
pub mod Advancing
