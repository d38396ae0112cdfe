pub mod Lines
pub mod SameTypes
