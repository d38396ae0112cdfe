pub mod Words
pub mod StructShapes
pub mod Definitions
pub mod Fields
pub mod AllPass
pub mod SpanLemmas
pub mod PlacingLemmas
