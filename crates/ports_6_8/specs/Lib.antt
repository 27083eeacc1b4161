-- A question asked of a port.
pub mod Asked
