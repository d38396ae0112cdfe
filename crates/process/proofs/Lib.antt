mod Alone
pub mod Outsides
mod Resumed
mod Reversed
