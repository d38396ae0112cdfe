pub mod Commits
pub mod Steady
pub mod Outsides
