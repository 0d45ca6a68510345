pub mod Tables
pub mod Elements
pub mod TestLaws
pub mod ReadingLaws
pub mod CallLaws
