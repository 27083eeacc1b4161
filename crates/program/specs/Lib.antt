-- A program: its tables, the sets of 001 that they declare, its units, and the program that they say.
pub mod Tables
pub mod Guard
pub mod Sets
pub mod Units
pub mod Program
pub mod Ports
