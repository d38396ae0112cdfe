pub mod Grouping
pub mod Shortening
pub mod Lengthening
