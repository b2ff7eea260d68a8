pub mod Arrays
pub mod Changed
pub mod Facts
pub mod Gathers
pub mod Held
pub mod Leasts
pub mod Removed
pub mod Updated
