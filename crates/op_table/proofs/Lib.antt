pub mod Powers
pub mod Shifts
pub mod Quotients
