pub mod Course
pub mod Promise
pub mod Refused
