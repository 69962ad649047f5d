-- What a reader must believe of input: which lines its bytes make, and what a reader gives.
pub mod Lines
pub mod Reading
