pub mod Calls
pub mod Footprint
pub mod Transactions
pub mod code
