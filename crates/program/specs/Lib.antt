-- What a reader must believe of programs: the report of refused lines, words and their numbers, and
-- the room for what waits to be written.
pub mod Report
pub mod Words
pub mod Writer
