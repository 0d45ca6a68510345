pub mod CheckLaws
pub mod Checked
