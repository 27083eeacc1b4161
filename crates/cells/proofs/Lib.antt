-- Laws that belong to no one function. Crates above cite them.
pub mod Ints
pub mod Names
pub mod Numbers
pub mod Place
pub mod Rows
pub mod Held
