-- Laws of readings that belong to no one function. Crates above cite them.
pub mod Readings
