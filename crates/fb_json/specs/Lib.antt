pub mod JsonText
pub mod NumberTokens
