pub mod Lines
pub mod Letters
pub mod Format
pub mod Views
pub mod Verdict
pub mod Grammar
pub mod Account
