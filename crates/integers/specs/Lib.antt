pub mod Int
pub mod Laws
pub mod Text
