pub mod Fuel
pub mod Growth
pub mod Memories
pub mod Tables
pub mod Records
pub mod stages
