pub mod InternalKept
pub mod InternalMerging
pub mod Laws
pub mod Lists
pub mod Merged
pub mod Names
pub mod Table
pub mod Walks
