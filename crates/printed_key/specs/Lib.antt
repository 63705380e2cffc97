pub mod Blocks
pub mod Key
pub mod Telling
pub mod Text
