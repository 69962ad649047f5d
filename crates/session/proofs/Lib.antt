-- The laws of a session.
pub mod Chains
pub mod Feeds
pub mod Long
pub mod Runs
pub mod Turns
