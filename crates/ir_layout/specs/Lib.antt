pub mod Shapes
pub mod KeptShapes
pub mod Followed
pub mod NamedTypes
pub mod Offsets
pub mod WrittenTypes
pub mod Memory
pub mod Limits
