pub mod Networks
pub mod Companions
pub mod Assembly
pub mod Steps
pub mod Stories
pub mod Laws
pub mod Theorem
pub mod Called
