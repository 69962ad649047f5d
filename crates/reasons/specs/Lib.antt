-- What a reader must believe: why one cell wakes, and why the cells of a card do in a tick.
pub mod CellReasons
pub mod Reasons
pub mod CellExamples
