-- The composed run: what is known of an accepted system, what is asked of a tick, and how Giotto's configuration and the machine's
-- state are related at every tick.
pub mod Sound
pub mod Suited
pub mod Related
