pub mod OpeningLaws
pub mod SettingLaws
pub mod Sound
