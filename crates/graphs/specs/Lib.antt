pub mod Graph
pub mod Labels
pub mod Cuts
pub mod Greedy
pub mod Groups
pub mod Joint
