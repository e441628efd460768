pub mod Defects
pub mod Pairs
pub mod JudgedChanges
pub mod LastChanges
pub mod ListedShots
pub mod TextLemmas
pub mod PlaceLemmas
pub mod FirstRecords
