-- What is asked one after the other, by its place and by its number.
pub mod Asked
pub mod Parts
