pub mod Jobs
pub mod Rules
pub mod Laws
