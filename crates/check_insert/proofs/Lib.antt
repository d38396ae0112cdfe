pub mod Column
pub mod Kept
