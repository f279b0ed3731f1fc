pub mod Fault
pub mod Rule
pub mod Source
pub mod Limited
pub mod Choice
