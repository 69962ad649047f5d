-- Laws of what programs share.
pub mod Numbers
