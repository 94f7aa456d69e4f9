pub mod Digits
pub mod FamilyClosure
pub mod FamilyParts
pub mod FamilyTest
pub mod Lowest
pub mod Members
pub mod Placed
pub mod Words
