pub mod PassedRows
pub mod Commands
pub mod Numbers
pub mod Builders
pub mod RefusedFormats
pub mod TextOptions
