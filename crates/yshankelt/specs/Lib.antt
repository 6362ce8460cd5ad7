pub mod Face
pub mod Whole
