pub mod Remainders
pub mod Test
