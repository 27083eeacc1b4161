-- Laws of the machine: each number of execution under exactly its condition, and what an advance leaves as it was.
pub mod Outcomes
pub mod Collide
pub mod Instructions
pub mod Instants
pub mod Comes
pub mod Fits
pub mod Ready
pub mod Answered
pub mod Fresh
pub mod Refusals
pub mod Stopped
pub mod Completing
pub mod Kept
pub mod Moved
pub mod Uses
pub mod Exact
pub mod Declared
