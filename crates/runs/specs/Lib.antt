-- Runs of one supplier's schedule code: windows and schedule rows, a tick, a unit, a round, the first break of a run, and when a run
-- is ahead of another.
pub mod Tick
pub mod Windows
pub mod Schedule
pub mod Round
pub mod Dominated
pub mod Over
