pub mod Calls
pub mod Kinds
pub mod Looks
pub mod Meanings
pub mod Plans
pub mod Refusals
