-- Numbers 1 to 10 and 24, each as a test and as a claim, and the verdict on a program.
pub mod Shape
pub mod Fields
pub mod Declared
pub mod Modes
pub mod Timing
pub mod Missing
pub mod Verdict
