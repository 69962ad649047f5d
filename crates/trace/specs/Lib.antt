-- What a reader must believe of pictures of a run: what one line shows.
pub mod Shows
