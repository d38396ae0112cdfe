pub mod Guards
pub mod Intervals
pub mod Strikes
pub mod Table
pub mod Windows
