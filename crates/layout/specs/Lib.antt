-- Where each block of the listing stands, counted from the tables; the delays of its `future`s by address.
pub mod Counts
pub mod Few
pub mod Layout
pub mod Delays
