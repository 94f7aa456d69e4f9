pub mod Cards
pub mod Dealing
pub mod Deals
pub mod PlanScores
pub mod PlanTheorem
pub mod Plans
pub mod Winning
pub mod Checked
