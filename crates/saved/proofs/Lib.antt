-- Laws of the saved record that several functions or the crates above cite.
pub mod Fields
pub mod Forms
pub mod Headers
pub mod Records
