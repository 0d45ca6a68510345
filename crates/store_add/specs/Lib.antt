pub mod Deciding
pub mod Pieces
pub mod Requires
