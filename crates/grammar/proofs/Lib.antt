-- The proofs of the grammar.
pub mod Printed
pub mod TextParts
pub mod Texts
pub mod Words
