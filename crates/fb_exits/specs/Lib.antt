pub mod Causes
pub mod Ends
pub mod TextEnds
pub mod InternalCauses
