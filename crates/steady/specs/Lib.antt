-- What a reader must believe: ticks one after the other, and what many of them at once come to.
pub mod Steady
pub mod Examples
pub mod Laws
pub mod Lists
