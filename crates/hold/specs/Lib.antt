pub mod Keeping
pub mod Moves
pub mod GivingUp
