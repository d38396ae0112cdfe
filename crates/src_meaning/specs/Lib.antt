pub mod Labels
pub mod Landing
pub mod State
pub mod Step
pub mod Runs
pub mod Races
