pub mod Asked
pub mod FirstPlaces
pub mod RegisterWidths
