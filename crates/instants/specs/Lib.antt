-- One instant of the E machine as the code runs it: what one instruction comes to.
pub mod Step
