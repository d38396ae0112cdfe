pub mod Sheet
pub mod Text
pub mod Reading
pub mod Laws
