-- How the code does what the definitions say.
pub mod Threads
pub mod Moves
