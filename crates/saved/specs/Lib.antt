-- What a reader must believe of saved records, in the order of document 01.
pub mod Record
pub mod RecordExamples
-- Another view of a rule above: a law says that they agree.
pub mod Headers
