pub mod Steps
pub mod Spelling
pub mod Texts
pub mod Deeds
pub mod Turns
pub mod Numbers
pub mod Forms
pub mod Unique
