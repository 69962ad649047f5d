-- What a reader must believe of a witness: ticks with one sample, and when one of them is late.
pub mod Times
