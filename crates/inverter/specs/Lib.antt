pub mod Layout
pub mod Designer
pub mod Layers
pub mod Phrases
pub mod Tables
pub mod Drawing
