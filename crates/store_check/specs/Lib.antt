pub mod Entries
pub mod Figures
pub mod PointsTest
pub mod Tables
pub mod CheckLaws
pub mod Checked
