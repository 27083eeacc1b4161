-- One instant of the E machine: what an instruction and a call come to, what they name, which stands at an address, and the loop.
pub mod Declared
pub mod Answered
pub mod Steps
pub mod Executed
pub mod Fetched
pub mod Running
