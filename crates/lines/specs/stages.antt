pub mod Digits
pub mod Codes
pub mod Back
pub mod Runs
