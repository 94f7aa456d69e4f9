pub mod Ends
pub mod Falls
pub mod Sizes
pub mod Values
pub mod TakenIn
