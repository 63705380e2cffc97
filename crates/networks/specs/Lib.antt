pub mod Words
pub mod Networks
