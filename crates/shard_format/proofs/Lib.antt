mod AppendedWords
pub mod CellsThatFit
pub mod CountedSplits
pub mod MarkedIndices
pub mod RecordPlaces
pub mod SpelledElements
pub mod SpelledRecords
pub mod RowElements
pub mod RowRecords
