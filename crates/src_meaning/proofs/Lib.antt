pub mod Params
pub mod Tables
mod Turning
