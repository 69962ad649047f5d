-- What a reader must believe of a conversion: its refusals, its result, and the buffer afterwards.
pub mod Convert
pub mod ConvertExamples
-- What is proved of it.
pub mod Conversion
