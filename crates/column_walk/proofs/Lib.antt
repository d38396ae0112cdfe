pub mod LastBlock
pub mod Made
pub mod NextBlock
pub mod Passing
