pub mod Ranges
pub mod Listed
pub mod Sheets
pub mod Same
