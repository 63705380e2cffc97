pub mod Readings
pub mod Traces
