pub mod Records
pub mod Waits
pub mod Leads
pub mod Lanes
pub mod Table
