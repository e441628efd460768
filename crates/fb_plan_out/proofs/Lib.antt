pub mod Entries
pub mod Newline
pub mod Readback
pub mod Owned
pub mod Sizes
pub mod Finished
pub mod Gaps
