-- Laws of written instructions that belong to no one function. Crates above cite them.
pub mod Written
