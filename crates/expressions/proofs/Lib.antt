pub mod Same
pub mod Masks
pub mod Rules
