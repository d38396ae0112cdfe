pub mod Accesses
pub mod Agreement
pub mod Bytes
pub mod Laws
pub mod Lines
pub mod Opening
pub mod Touches
pub mod Views
