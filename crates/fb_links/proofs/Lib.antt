pub mod Ends
pub mod Joins
pub mod Lists
pub mod MovedLinks
pub mod Numbers
pub mod Renaming
pub mod Spans
mod SortedNames
pub mod Turns
