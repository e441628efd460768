pub mod AtFiles
pub mod InText
