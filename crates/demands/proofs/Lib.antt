-- The one theorem.
pub mod Demands
