pub mod Agreement
pub mod Flags
