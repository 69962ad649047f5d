-- Laws of rows of cards, and of racks.
pub mod Rows
pub mod Draws
pub mod Racks
pub mod Supplies
pub mod Alone
pub mod Buffers
pub mod Refused
pub mod Started
pub mod Cards
pub mod Ticks
pub mod Takes
pub mod Calls
