pub mod NamedCallees
pub mod NoAccess
pub mod Rooms
pub mod Undone
pub mod Puts
pub mod Takes
