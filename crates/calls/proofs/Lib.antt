-- The theorems over lists of calls.
pub mod MemoryIsHistory
pub mod Lists
pub mod Reached
pub mod Rest
pub mod Runs
pub mod SaveLoad
pub mod Sizes
pub mod Tallied
