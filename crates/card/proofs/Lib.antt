-- Laws of the card that several functions or the crates above cite.
pub mod Bounds
pub mod ChangeLaws
pub mod ChartLaws
pub mod ConnectorLaws
pub mod EditLaws
pub mod Places
pub mod PresetLaws
pub mod PresetRows
pub mod PresetValid
pub mod Settings
pub mod Slots
pub mod TallyLaws
pub mod ValidLaws
pub mod WriteLaws
