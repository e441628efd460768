pub mod JsonLoops
pub mod ListTokens
pub mod NumberTexts
pub mod Readings
