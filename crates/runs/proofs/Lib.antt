-- The laws of runs: a shorter run is dominated, the worst case decides, the judge gives the first break, windows; and the code's
-- search for a block by halving, its walk over rows, windows and ticks.
pub mod Tick
pub mod Released
pub mod Dominated
pub mod Ticks
pub mod First
pub mod Same
pub mod Exactly
pub mod Windows
pub mod Halving
pub mod Blocks
pub mod Found
pub mod Rows
pub mod Turns
pub mod Ends
pub mod Watching
pub mod Over
