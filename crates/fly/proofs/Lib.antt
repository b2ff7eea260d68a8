pub mod Runs
pub mod Rules
pub mod Events
pub mod Holding
pub mod Kicking
pub mod Promised
