-- E code, the one listing of a program, and compiling.
pub mod Op
pub mod Opcodes
pub mod Listing
pub mod Compile
