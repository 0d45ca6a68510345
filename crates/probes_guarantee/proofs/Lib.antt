pub mod RanLaws
pub mod Theorem
