pub mod MatchCounts
pub mod MatchEnds
pub mod MergedCounts
