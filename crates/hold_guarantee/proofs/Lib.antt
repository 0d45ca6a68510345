pub mod ListLaws
pub mod RanLaws
pub mod StoreRun
pub mod Theorem
