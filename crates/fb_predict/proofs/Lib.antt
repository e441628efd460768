pub mod Rests
pub mod FaultyEntries
pub mod Beyond
pub mod Flips
