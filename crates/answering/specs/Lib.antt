-- What the shipped program answers to what it has read, and what it does between its writes.
pub mod Answer
pub mod Writing
