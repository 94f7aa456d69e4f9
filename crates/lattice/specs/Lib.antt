pub mod Scores
pub mod Windows
pub mod TrickScores
pub mod FamilyScores
pub mod FamilyLaws
pub mod TrickLaws
