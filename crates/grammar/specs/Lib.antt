-- What a reader must believe: the forms of a line, the texts of a command, and what texts are taken
-- for.
pub mod Grammar
pub mod Texts
pub mod Examples
