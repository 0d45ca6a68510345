pub mod Calls
pub mod Run
pub mod History
pub mod Guarantee
pub mod StoreRun
pub mod Ran
pub mod Contracts
