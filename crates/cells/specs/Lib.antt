-- What a reader must believe of cells, in the order of document 01.
pub mod Table
pub mod State
pub mod Work
pub mod Wake
pub mod Reading
pub mod Effect
pub mod Counting
pub mod Timing
pub mod Examples
pub mod GateExamples
pub mod WakeExamples
