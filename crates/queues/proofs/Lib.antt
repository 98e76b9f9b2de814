pub mod Counts
pub mod Rounds
pub mod Takings
pub mod Times
pub mod Words
