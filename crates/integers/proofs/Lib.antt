pub mod Ranges
pub mod Divisions
pub mod Moduli
pub mod Given
pub mod Single
