pub mod Cases
pub mod Listed
pub mod Page
pub mod Writing
