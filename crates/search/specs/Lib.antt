pub mod Bounds
pub mod Steps
pub mod Invariant
pub mod Promises
pub mod Stacks
