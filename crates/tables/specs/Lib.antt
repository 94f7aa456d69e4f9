pub mod Fronts
pub mod Laws
pub mod Places
pub mod Tables
