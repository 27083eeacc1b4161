-- Why a table may be cut to its buffer.
pub mod Cut
