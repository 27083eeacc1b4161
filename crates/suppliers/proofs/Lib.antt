-- Numbers 12 and 13 are exact, row by row: each test bars its claim, and the table of delays says those of the listing. Parts that pass,
-- joined, pass. The answer over the modes is that of the first whose run breaks. A supplier without tasks and rows is accepted.
pub mod Few
pub mod Windows
pub mod Schedule
pub mod Dispatched
pub mod Appended
pub mod Joining
pub mod Delays
pub mod Modes
pub mod Accepted
pub mod Answers
pub mod Tasks
pub mod Judged
pub mod Idle
