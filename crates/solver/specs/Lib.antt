pub mod Bounds
pub mod PlanCalls
pub mod Solving
