mod Circles
pub mod Uses
