-- The compiled code does the instant: run from a block it comes to what `block_instant` says, and that leaves what Giotto's instant says.
pub mod Steps
pub mod Then
pub mod Through
pub mod Tests
pub mod Count
pub mod Named
pub mod Entry
pub mod Turns
pub mod Refused
pub mod Does
pub mod Sequence
pub mod Unmixed
pub mod Effects
pub mod Leaves
