pub mod Command
pub mod Words
pub mod InternalOptions
pub mod Faults
pub mod Taken
pub mod InternalCommands
