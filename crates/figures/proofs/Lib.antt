pub mod Rounding
pub mod Summing
