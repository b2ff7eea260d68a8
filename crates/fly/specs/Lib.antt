pub mod Flights
pub mod Promise
