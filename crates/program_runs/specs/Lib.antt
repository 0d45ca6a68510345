pub mod Ran
pub mod Contracts
