pub mod Told
pub mod Rules
pub mod Chains
pub mod Used
pub mod OneFault
pub mod Members
pub mod ModuleLines
