pub mod Image
pub mod Meaning
pub mod Samples
