pub mod FieldLaws
pub mod LinesLaws
pub mod ReaderTurns
pub mod WriterTurns
