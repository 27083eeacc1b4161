-- Port values row by row, and how the code joins the turns of a tick.
pub mod Values
pub mod Joined
