-- The proofs of the line reader.
pub mod Decisions
pub mod Long
