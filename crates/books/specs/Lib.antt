pub mod Refusals
pub mod Model
pub mod Sound
pub mod States
pub mod Views
