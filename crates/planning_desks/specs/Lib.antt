pub mod PlanningDesks
