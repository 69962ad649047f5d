-- What a reader must believe of a card and its settings, in the order of document 01.
pub mod Address
pub mod Chart
pub mod Connectors
pub mod Tally
pub mod Fresh
pub mod Edits
pub mod Context
pub mod Change
pub mod Presets
pub mod Valid
pub mod Examples
pub mod TallyExamples
pub mod Sizes
-- Another view of a rule above, or what only proofs use: laws say that they agree.
pub mod PresetRows
pub mod Untouched
pub mod Written
