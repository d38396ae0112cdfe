pub mod Accesses
pub mod Action
pub mod Operands
pub mod Phis
pub mod World
pub mod Registers
