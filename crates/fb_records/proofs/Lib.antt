pub mod LineLemmas
pub mod PartLemmas
pub mod RecordLemmas
pub mod AnswerLemmas
pub mod FirstRecords
