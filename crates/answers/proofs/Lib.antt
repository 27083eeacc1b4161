-- What a search comes to, and a call that asks one thing after the other.
pub mod Told
