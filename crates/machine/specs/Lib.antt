-- The machine: one instruction, one instant, one tick of the schedules, a fresh state, an advance.
pub mod Change
pub mod Instruction
pub mod Instant
pub mod Schedules
pub mod Advance
pub mod Fresh
pub mod Comes
pub mod Moves
pub mod Uses
pub mod Told
