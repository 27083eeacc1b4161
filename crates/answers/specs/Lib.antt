-- What a call comes to, in numbers.
pub mod Answers
