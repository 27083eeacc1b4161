-- What the tests on a program's tables say: the sets that they declare, guards that meet, units; the program that the tables say, and
-- what its parts write.
pub mod Sets
pub mod Guards
pub mod Units
pub mod Places
pub mod Decoded
pub mod Ports
