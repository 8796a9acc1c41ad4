mod PlanLemmas
mod RunLemmas
mod ShownLemmas
mod SideLemmas
mod TraceLemmas
