-- What a reader must believe of the printed chart: its rows.
pub mod Rows
pub mod Examples
