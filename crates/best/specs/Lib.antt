pub mod Rule
pub mod Seats
