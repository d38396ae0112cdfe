pub mod Adding
pub mod Collecting
pub mod Telling
pub mod Again
