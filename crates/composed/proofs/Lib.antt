-- The relation is kept by every tick: through an instant (Copied to Readied), through a tick of the schedules (OneRuns to Ticked); no
-- number is given before either (Within, Judged). So it is by an advance (Run). What is lent suits a tick by Giotto's configurations
-- alone (Given). A state is related to one configuration (Unique).
pub mod Copied
pub mod Edge
pub mod Arrived
pub mod Entered
pub mod Readied
pub mod OneRuns
pub mod Passing
pub mod Ticked
pub mod Within
pub mod Judged
pub mod Run
pub mod Given
pub mod Unique
