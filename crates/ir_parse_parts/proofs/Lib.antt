pub mod Digits
pub mod Exits
pub mod Fronts
pub mod WholeLines
