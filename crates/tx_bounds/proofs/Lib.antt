pub mod Texts
pub mod Turns
pub mod Events
pub mod Steadiness
pub mod Outer
