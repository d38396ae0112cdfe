pub mod Likeness
pub mod Locality
pub mod Threads
