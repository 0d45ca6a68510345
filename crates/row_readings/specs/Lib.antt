pub mod EqualityLaws
pub mod IndexReadings
pub mod Items
pub mod Previews
pub mod Shingled
pub mod SumLaws
pub mod RowSums
