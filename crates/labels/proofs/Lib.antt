pub mod Counting
pub mod Searching
pub mod TakeLaws
pub mod TakenAnswer
pub mod Taking
