pub mod Chain
pub mod Right
pub mod PlanLines
pub mod PlanCalls
