-- Laws of many ticks at once.
pub mod Cells
pub mod Tallied
pub mod Turns
pub mod Cards
pub mod Cases
pub mod Made
pub mod Laws
pub mod Roomy
pub mod Lists
