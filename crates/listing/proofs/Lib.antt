pub mod InMask
pub mod Listed
