-- What a reader must believe of a run: what one line of input does, and then all of them.
pub mod Examples
pub mod Feed
pub mod Run
pub mod Session
