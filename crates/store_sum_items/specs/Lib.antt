pub mod Records
pub mod InOrder
