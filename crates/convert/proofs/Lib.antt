-- Laws of the converter that its function or the crates above cite.
pub mod Laws
pub mod Above
pub mod Conversion
