-- The laws of what is read: the tables in the room, one line more, one byte more; and that it is what the definition says.
pub mod Shapes
pub mod Steps
pub mod Cut
pub mod Rest
pub mod Pieces
pub mod Sound
pub mod Resume
pub mod Here
pub mod Follows
pub mod Took
pub mod End
pub mod Begun
pub mod Cutting
pub mod Text
pub mod Decided
pub mod Exact
