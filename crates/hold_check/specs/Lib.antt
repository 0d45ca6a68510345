pub mod ListedOnce
pub mod CheckLaws
pub mod Rising
pub mod Runs
pub mod Steady
pub mod Checked
