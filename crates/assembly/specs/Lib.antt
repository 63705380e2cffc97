pub mod Figures
pub mod Frames
