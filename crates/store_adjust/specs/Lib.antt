pub mod Pairs
pub mod PairLaws
pub mod Run
pub mod Elements
pub mod RowRun
pub mod AfterCheck
