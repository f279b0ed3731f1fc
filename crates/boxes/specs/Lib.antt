pub mod Fault
pub mod Layer
pub mod Lambda
pub mod Box
pub mod Places
pub mod Held
