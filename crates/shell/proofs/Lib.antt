-- What is printed is what document 01 says.
pub mod Hearing
pub mod Running
pub mod Pieces
pub mod AtOnce
pub mod Exact
