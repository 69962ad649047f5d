-- What a reader must believe of surveys, in the order of document 02, 11.
pub mod Survey
pub mod Unreached
pub mod Examples
-- Another view of the set, which the code and the examples take: laws say that they agree.
pub mod Rounds
