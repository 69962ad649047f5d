-- What a reader must believe of lines and their refusals, in the order of document 01.
pub mod Refusal
pub mod Line
pub mod Examples
pub mod Buffers
pub mod Large
