pub mod Testing
pub mod Passing
pub mod Following
