-- What the code of a tick comes to.
pub mod Rowwise
pub mod Assigned
pub mod Joining
pub mod Walking
pub mod Completed
pub mod Ticking
