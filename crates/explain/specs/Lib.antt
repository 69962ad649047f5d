-- What a reader must believe: the definitions that the contracts cite.
pub mod Facts
