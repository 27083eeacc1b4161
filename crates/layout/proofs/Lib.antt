-- What holds of the sizes: they stay within the limits, and are those of the listing; so are the addresses of the modes, and the
-- delays of the `future`s.
pub mod Limits
pub mod Sizes
pub mod Laid
pub mod Walked
pub mod Marks
pub mod Delay
