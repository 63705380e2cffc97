pub mod Turns
pub mod Members
pub mod Reading
pub mod Framing
pub mod Filling
pub mod Touching
pub mod Linking
pub mod Counting
