pub mod Bits
pub mod Entries
pub mod Slips
pub mod Writing
