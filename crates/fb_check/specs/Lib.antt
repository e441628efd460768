pub mod CheckEndings
pub mod Checks
pub mod InternalJudges
