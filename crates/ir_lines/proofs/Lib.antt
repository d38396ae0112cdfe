pub mod Breaks
pub mod Parts
