-- Laws of cells that several functions or the crates above cite.
pub mod Rows
pub mod Packed
pub mod Tests
pub mod Gates
pub mod Steps
pub mod Laws
pub mod Counters
pub mod Timers
pub mod Used
