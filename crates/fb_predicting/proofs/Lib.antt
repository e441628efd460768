pub mod ReadsBack
pub mod RecordsSoFar
