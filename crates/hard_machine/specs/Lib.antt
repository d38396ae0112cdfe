pub mod State
pub mod Step
pub mod Telling
pub mod Runs
