pub mod Listing
pub mod Forms
pub mod Printed
