pub mod Questions
pub mod Calls
pub mod Model
pub mod Histories
pub mod Promises
pub mod Bounds
