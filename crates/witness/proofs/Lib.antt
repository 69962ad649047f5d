-- Laws of witnesses.
pub mod Monitor
pub mod Steady
pub mod Watching
pub mod Runs
