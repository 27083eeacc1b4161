-- What holds of the listing: its length, where its pieces stand, what its words say, what it names. What compiling answers.
pub mod Length
pub mod At
pub mod Place
pub mod Futures
pub mod Words
pub mod Fetch
pub mod Inside
pub mod Accepted
pub mod Answers
pub mod Said
