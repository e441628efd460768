pub mod Crews
pub mod InternalSeats
pub mod InternalSolved
pub mod InternalWindows
pub mod Windows
