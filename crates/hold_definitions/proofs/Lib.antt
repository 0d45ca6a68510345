pub mod AddingLaws
pub mod FigureLaws
pub mod NamesLaws
pub mod OpeningLaws
pub mod ReadingLaws
pub mod Sound
