pub mod Results
pub mod Sound
pub mod Resting
pub mod Searching
pub mod Closing
pub mod Sequences
pub mod Bounds
pub mod Own
