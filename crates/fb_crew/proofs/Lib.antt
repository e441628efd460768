pub mod Entries
pub mod Members
pub mod Order
pub mod EvenPlaces
pub mod Rooted
pub mod Joined
