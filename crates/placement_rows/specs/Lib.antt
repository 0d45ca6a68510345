pub mod Layable
pub mod Shapes
pub mod Compactable
pub mod IndexTable
pub mod OnePass
