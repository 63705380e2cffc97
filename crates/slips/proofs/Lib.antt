pub mod Ending
pub mod Holding
pub mod Packing
pub mod Putting
pub mod Reading
pub mod Signs
pub mod Whole
