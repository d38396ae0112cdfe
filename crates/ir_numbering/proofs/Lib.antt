mod Adding
mod Closed
pub mod Lacking
pub mod TakenNames
pub mod Kept
pub mod Results
pub mod Filled
