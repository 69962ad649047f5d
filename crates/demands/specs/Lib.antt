-- What a reader must believe: the demands on one page.
pub mod Demands
