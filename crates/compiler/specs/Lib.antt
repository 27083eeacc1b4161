-- E code of all modes as it is written into a lent slice, and what compiling answers.
pub mod Rounds
pub mod Sources
pub mod Modes
pub mod Listed
