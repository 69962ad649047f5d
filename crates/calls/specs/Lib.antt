-- What a reader must believe of lists of calls, in the order of document 01.
pub mod Runs
pub mod Calls
pub mod Demand3
pub mod History
pub mod Tallies
pub mod Rest
pub mod SaveLoad
pub mod Sizes
pub mod Replies
pub mod RequiredExamples
