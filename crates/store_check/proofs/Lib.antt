mod BoundsTests
mod EntryLaws
mod PlaceLaws
mod TableLaws
pub mod CheckedLaws
