pub mod Predictions
pub mod PredictEndings
pub mod PredictLaws
pub mod InternalRecords
