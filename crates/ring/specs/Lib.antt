pub mod Circle
pub mod Rings
