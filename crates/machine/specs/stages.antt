-- What only the code's inner functions need: their stages, and what they ask of each other.
pub mod Rows
pub mod Records
pub mod Laws
