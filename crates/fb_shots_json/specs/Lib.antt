pub mod TextJson
pub mod InternalEntries
pub mod InternalPlaces
pub mod InternalAnswers
pub mod FaultTexts
