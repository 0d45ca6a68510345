pub mod Kinds
pub mod Deciding
pub mod Entries
