pub mod Laws
pub mod Policies
pub mod Recents
