-- The compiled code's instant: from the block of a mode and unit, what it comes to, and the state that it leaves.
pub mod Block
pub mod Done
