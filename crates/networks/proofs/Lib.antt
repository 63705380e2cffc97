pub mod Bits
pub mod Firsts
pub mod Networks
pub mod Growing
