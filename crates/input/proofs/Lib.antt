-- Laws of lines of input and of their reader.
pub mod Lines
pub mod Reading
