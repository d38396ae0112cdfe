mod Others
pub mod FirstPairs
pub mod Comparisons
pub mod Following
pub mod Turning
pub mod SourceRuns
