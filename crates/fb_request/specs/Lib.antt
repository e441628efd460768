pub mod Ranges
pub mod Requests
pub mod PlainRequests
