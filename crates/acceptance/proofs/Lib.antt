-- What holds of the two calls' numbers.
pub mod Calls
