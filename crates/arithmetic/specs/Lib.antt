pub mod Binary64
pub mod Ops
pub mod Residues
pub mod ResidueLaws
