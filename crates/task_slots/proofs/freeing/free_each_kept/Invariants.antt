use Rattle.std.proofs.Common.{◌≡◌, ◌≤◌, ◌==◌, ◌&&◌, ℕ, None, true, nat_lt, if◌then◌else◌}
use Rattle.held_parts.specs.Held.{IsSamePool, held_at}
use Rattle.kept_jobs.specs.Slots.{job_at}
use Rattle.task_acts.specs.declared.work.Work.{Work}
use Rattle.task_acts.specs.Failures.{is_stopped}
use Rattle.task_acts.specs.Histories.{History}
use Rattle.move_laws.specs.Follows.{IsTaskIn}
use Rattle.move_laws.specs.Freed.{keeps_part}
use Rattle.task_slots.proofs.freeing.free_each_kept.Given as goal

abbrev pub invariant-loop-number : goal.invariant-loop-number
invariant-loop-number l = record {
  held : (x y : ℕ) → held_at l.parts.slots x y
      ≡ (if (l.task == x) && (keeps_part l.initial.state y && nat_lt y l.number) then None
      else held_at l.initial.parts.slots x y);
  kept : (n : ℕ) → l.number ≤ n → job_at l.state.kept l.op n ≡ job_at l.initial.state.kept l.op n;
  pool : IsSamePool l.initial.parts.pool l.parts.pool;
  known : (room : ℕ) (w : Work) (h : History) → is_stopped w h ≡ true → IsTaskIn room w h l.initial.state
      → IsTaskIn room w h l.state;
  tags : l.state.tags ≡ l.initial.state.tags;
}
