pub mod Parts
pub mod Runs
pub mod OneRun
pub mod Scanning
pub mod Tables
