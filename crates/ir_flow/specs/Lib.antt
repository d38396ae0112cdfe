pub mod Edges
pub mod Labels
pub mod Paths
pub mod Searches
pub mod Uses
pub mod Faults
pub mod Phis
pub mod Guides
