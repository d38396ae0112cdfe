pub mod Device
pub mod Host
pub mod Memory
