pub mod FaultyEntries
pub mod Pairs
pub mod Readings
pub mod Rulings
