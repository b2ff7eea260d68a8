pub mod Clocks
pub mod Keeps
pub mod Sent
pub mod Hand
pub mod Times
