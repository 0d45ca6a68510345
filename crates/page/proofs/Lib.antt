pub mod ListedLaws
pub mod PageLaws
pub mod WritingLaws
