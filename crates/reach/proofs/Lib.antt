-- Laws of certificates, their rows and what they leave out, up to the promise over every list of ticks.
pub mod Admitted
pub mod Held
pub mod Caps
pub mod Choices
pub mod Steps
pub mod Leading
pub mod Asks
pub mod Monitor
pub mod Lists
pub mod Readings
pub mod Parts
pub mod Spoken
pub mod Pruning
pub mod Whole
