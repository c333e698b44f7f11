pub mod Writing
pub mod Outputs
pub mod Tables
