-- The proofs of the printer: that lines set every valid setting, the laws that its functions cite, and what is promised of the text.
pub mod Wired
pub mod Settable
pub mod PartLaws
pub mod Feeds
pub mod Longest
