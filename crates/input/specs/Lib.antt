pub mod Lines
pub mod Names
pub mod Digits
pub mod Words
pub mod Runs
