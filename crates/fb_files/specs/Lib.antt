pub mod Judging
pub mod InternalGathers
pub mod Moments
pub mod Taking
