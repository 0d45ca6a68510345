pub mod Checks
pub mod CheckLaws
pub mod Checked
pub mod CheckedLaws
pub mod SlotPass
pub mod LabelPass
