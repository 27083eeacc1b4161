-- What the shipped program does between its reads, what both its loops come to, and what is promised.
pub mod Reading
pub mod Running
pub mod Exact
