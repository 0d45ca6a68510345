pub mod Reading
pub mod ReasonsRead
