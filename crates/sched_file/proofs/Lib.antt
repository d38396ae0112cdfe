pub mod Fronts
pub mod Turns
pub mod Digits
pub mod Readings
pub mod Meanings
pub mod OneUpset
pub mod SoFar
pub mod Decided
