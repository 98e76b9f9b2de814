pub mod Expression
pub mod Value
pub mod Evaluation
pub mod Reads
pub mod Worked
pub mod Text
