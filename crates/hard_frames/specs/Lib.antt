pub mod Code
pub mod Frames
pub mod Places
pub mod Orders
pub mod Labels
