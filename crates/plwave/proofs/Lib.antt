-- The proofs of the dump: laws of changes written one after the other.
pub mod Dumps
