pub mod Below
pub mod Entries
pub mod Refusals
pub mod Rows
pub mod Search
pub mod Sums
