-- Laws of the set of a line: what is outside it, that it is the smallest, and that ticks agree outside it.
pub mod Outside
pub mod Shown
pub mod Smallest
pub mod Ticks
