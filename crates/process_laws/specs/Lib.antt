pub mod Alone
pub mod Locality
