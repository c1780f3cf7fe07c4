pub mod PlanExact
