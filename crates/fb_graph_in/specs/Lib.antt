pub mod FaultTexts
pub mod GraphText
pub mod InternalNumbers
pub mod InternalTokens
