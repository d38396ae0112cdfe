pub mod Fields
pub mod LineLists
pub mod Machines
pub mod Others
pub mod WrittenBytes
pub mod Threads
