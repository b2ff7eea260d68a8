pub mod Rehearsal
pub mod Examples
pub mod Limit
