-- What a reader must believe of words: their bits, and lists that are given entry by entry.
pub mod Bits
pub mod Listed
