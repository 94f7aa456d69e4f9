pub mod Order
pub mod Codes
pub mod FamilyMasks
pub mod FamilyDoubling
