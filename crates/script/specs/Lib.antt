pub mod Messages
pub mod Words
pub mod Lines
pub mod Scripts
pub mod Views
pub mod Grammar
