-- What a reader must believe of a timing diagram: its limits.
pub mod Page
