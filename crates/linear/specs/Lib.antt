pub mod Elimination
pub mod Inside
pub mod Loops
pub mod Systems
