pub mod Held
pub mod Queue
pub mod Sorting
pub mod Steps
