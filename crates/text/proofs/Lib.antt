-- The proofs: the laws that the functions and their callers cite.
pub mod Stores
pub mod DigitLaws
pub mod DecimalLaws
pub mod HexLaws
