pub mod Meaning
pub mod Samples
pub mod Rows
