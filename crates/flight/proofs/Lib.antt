-- The laws of the flight profile.
pub mod Inside
pub mod Flights
pub mod Limited
pub mod Ends
pub mod FlightCases
