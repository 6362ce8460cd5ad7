pub mod Timing
pub mod InPlace
pub mod Text
