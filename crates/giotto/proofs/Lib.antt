-- The executable instant is 001's successor configuration, a configuration has one successor, and the execution goes by successors. The
-- tasks of a mode, and what an instant leaves as it was, private ports too; the active tasks are of the mode.
pub mod Steps
pub mod Drives
pub mod Outputs
pub mod Updates
pub mod Inputs
pub mod Switching
pub mod Active
pub mod Succeeds
pub mod One
pub mod Taken
pub mod Released
pub mod Once
pub mod Execution
pub mod Due
pub mod Stays
pub mod Private
pub mod Round
pub mod Actuator
pub mod ModeTasks
