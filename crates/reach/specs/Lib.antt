-- What a reader must believe: what is asked, what it is to keep a promise, and what a witness is.
pub mod Asked
pub mod Kept
pub mod Witness
-- How a certificate is checked: the law over lists of ticks (proofs/Lists) says what it is worth.
pub mod Cone
pub mod Rows
pub mod Certificate
pub mod Examples
pub mod CutExamples
