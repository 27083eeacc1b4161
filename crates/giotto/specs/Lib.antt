-- Giotto's own definition: one instant, and an execution with the value of every port at every tick.
pub mod Instant
pub mod Successor
pub mod Execution
