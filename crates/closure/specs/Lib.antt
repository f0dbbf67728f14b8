pub mod Ordered
pub mod Between
pub mod PlanRows
pub mod Carried
pub mod InOrder
