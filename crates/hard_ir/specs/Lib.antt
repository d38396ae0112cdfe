pub mod EdgeChecks
pub mod Facts
pub mod Fit
pub mod Hardened
pub mod Image
pub mod Images
pub mod Lines
pub mod Standing
