pub mod Views
pub mod Kept
pub mod Reads
pub mod Answers
pub mod Numbers
