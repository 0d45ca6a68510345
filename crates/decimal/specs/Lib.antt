pub mod Bytes
pub mod Cases
pub mod Field
pub mod Lines
pub mod Segments
