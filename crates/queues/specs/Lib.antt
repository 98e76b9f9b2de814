pub mod Lists
pub mod Lowest
pub mod Meaning
pub mod Pair
pub mod Ring
pub mod Round
pub mod Takings
