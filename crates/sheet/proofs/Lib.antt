pub mod Drawing
pub mod Meanings
