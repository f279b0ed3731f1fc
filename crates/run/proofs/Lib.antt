pub mod BookFits
pub mod Courses
pub mod Stepping
pub mod Turns
