-- What the code that writes a block comes to.
pub mod Passing
pub mod Tests
pub mod Parts
