pub mod Law
pub mod Losing
pub mod Swapping
