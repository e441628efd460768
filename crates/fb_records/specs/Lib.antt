pub mod Records
pub mod Lines
pub mod Answers
pub mod Laws
pub mod Steps
