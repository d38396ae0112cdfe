pub mod Pairs
pub mod Tables
pub mod Watching
pub mod Watchers
pub mod SourceRuns
