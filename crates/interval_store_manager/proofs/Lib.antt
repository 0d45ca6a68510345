mod Sweeping
mod Checking
