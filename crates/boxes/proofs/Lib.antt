pub mod Tables
pub mod Holding
