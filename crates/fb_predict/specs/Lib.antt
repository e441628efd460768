pub mod ObservableText
pub mod Codings
pub mod Observing
pub mod FaultTexts
pub mod InternalRests
pub mod InternalHolders
