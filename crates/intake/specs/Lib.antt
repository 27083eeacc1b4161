-- What the shipped program reads, as a machine on bytes, and what of it is exact.
pub mod Shapes
pub mod Change
pub mod Line
pub mod Bytes
pub mod Heard
pub mod Exact
