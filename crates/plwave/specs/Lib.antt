-- What a reader must believe of a wave file: what a tick writes to it.
pub mod Dump
