-- Each of the numbers 1 to 10 and 24 is exact: its test bars its claim. So the verdict is the first rule that is broken.
pub mod Shape
pub mod Fields
pub mod Declared
pub mod Copies
pub mod Some
pub mod Modes
pub mod Timing
pub mod Missing
pub mod Gap
pub mod Verdict
pub mod Accepted
