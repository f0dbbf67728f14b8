pub mod PlanSaid
