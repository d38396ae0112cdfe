pub mod Places
pub mod CodeLimits
pub mod Blocks
pub mod Functions
pub mod Flows
pub mod Faults
