pub mod Laying
pub mod RowTests
pub mod WritingLaws
