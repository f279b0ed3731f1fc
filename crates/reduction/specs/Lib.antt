pub mod Reduction
pub mod Listing
pub mod Laying
pub mod Told
