pub mod Commands
pub mod Asking
