pub mod Frames
pub mod Outcome
pub mod Process
pub mod State
pub mod code
