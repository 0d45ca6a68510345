pub mod Reborrow
pub mod Slices
pub mod Shared
pub mod Locals
pub mod Branches
