pub mod LittleEndian
pub mod Access
pub mod Memory
pub mod New
pub mod Grow
pub mod Host
pub mod Names
pub mod stages
