pub mod Kind
pub mod Grid
pub mod Strict
pub mod Stored
pub mod StrictLaws
