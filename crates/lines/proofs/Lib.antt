pub mod Searches
pub mod Depths
pub mod Words
pub mod Parsed
pub mod Accepts
pub mod Formed
pub mod Laws
pub mod Texts
