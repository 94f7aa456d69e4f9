mod Extremes
mod Masks
pub mod Uses
