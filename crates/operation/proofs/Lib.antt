-- What holds of an advance's number and answer, and of a fresh state's.
pub mod Numbers
pub mod Answers
