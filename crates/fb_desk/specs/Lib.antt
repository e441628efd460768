pub mod InternalQuiet
pub mod Numbers
