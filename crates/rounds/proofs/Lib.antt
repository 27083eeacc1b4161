-- What holds of the courses that are counted from the tables, and of the walk over them.
pub mod Releases
pub mod Stops
pub mod Going
pub mod Answers
pub mod Courses
