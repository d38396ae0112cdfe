pub mod Externals
pub mod Scalars
pub mod Calls
pub mod Standings
