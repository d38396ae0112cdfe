pub mod Locality
pub mod Steps
