pub mod Codes
pub mod Numbers
