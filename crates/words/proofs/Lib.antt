-- The proofs: the laws of words that every function and caller cites.
pub mod Bools
pub mod Laws
pub mod Listed
pub mod SetBits
