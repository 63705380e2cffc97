pub mod Rows
pub mod Trees
pub mod Matrices
pub mod Meanings
pub mod Stars
