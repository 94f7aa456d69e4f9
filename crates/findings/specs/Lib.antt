pub mod Findings
pub mod Right
pub mod Searched
