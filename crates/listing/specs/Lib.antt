pub mod ItemLine
pub mod Listing
pub mod Inspected
