-- What the code that writes the listing comes to.
pub mod Grown
pub mod Aims
pub mod Modes
pub mod Pieces
pub mod Listed
pub mod Outcomes
