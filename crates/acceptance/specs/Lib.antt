-- What the calls on windows and on a supplier's schedule code are lent, and what they ask in common.
pub mod Judged
