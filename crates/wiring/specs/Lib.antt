-- What a reader must believe: the way from settings to lines, the definitions that the contracts
-- cite, and what is promised of the text.
pub mod Wiring
pub mod Settable
pub mod Parts
pub mod Print
pub mod Feeds
pub mod Longest
pub mod Examples
