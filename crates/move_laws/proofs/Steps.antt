-- The steps by which a call changes what is kept, joined.
use Rattle.std.proofs.Common.{◌≡◌, ◌∙◌, ◌++◌, ◌∷◌, ◌≤◌, [], ℕ, Bool, true, false, Option, None, ap, arith}
use Rattle.std.proofs.Common.{is_some, length, length-set, if◌then◌else◌}
use Rattle.held_parts.specs.Held.{IsSamePool}
use Rattle.chunk_plan.specs.Pool.{Pool}
use Rattle.lane_queues.specs.Lanes.{jobs_in, with_jobs}
use Rattle.act_queues.specs.declared.act_queues.ActSort.{ActSort}
use Rattle.s3_model.specs.declared.outcomes.JobId.{JobId}
use Rattle.s3_model.specs.declared.outcomes.Outcome.{Outcome}
use Rattle.task_core.specs.Machine.{SeenTask}
use Rattle.move_laws.proofs.Settled.{between}
use Rattle.move_laws.specs.Kept.{SeenMoves, ended_count, slot_for, sort_by, with_fewer, with_lanes, with_outcome}
use Rattle.move_laws.specs.Kept.{with_parts}
use Rattle.move_laws.specs.Kept.{with_slot, with_sort, with_state, without_state}

pub same_pools : (a b c : Pool) → IsSamePool a b → IsSamePool b c → IsSamePool a c
same_pools a b c p q = record { count = q.count ∙ p.count; room = q.room ∙ p.room }

pub at_most_one : (t : SeenTask) → ended_count t ≤ 1
at_most_one t = by (is_some t.outcome)
  where
    by : (b : Bool) → (if b then 1 else 0) ≤ 1
    by true = omega arith
    by false = omega arith

module _ (task : ℕ) (m : SeenMoves) where
  -- the state is taken out, and parts are moved
  pub taken_moved : (m1 m2 : SeenMoves) → m1 ≡ without_state task m → m2 ≡ with_parts m2.parts m1
      → m2 ≡ with_parts m2.parts (without_state task m)
  taken_moved m1 m2 a b = b ∙ ap (λ (x : SeenMoves). with_parts m2.parts x) a

  pub moved_again : (m1 m2 : SeenMoves) → m1 ≡ with_parts m1.parts (without_state task m)
      → m2 ≡ with_parts m2.parts m1 → m2 ≡ with_parts m2.parts (without_state task m)
  moved_again m1 m2 a b = b ∙ ap (λ (x : SeenMoves). with_parts m2.parts x) a

  -- a job is pushed, and the state is put back
  pub pushed : (lane : ℕ) (job : JobId) (t : SeenTask) (m2 m3 new : SeenMoves)
      → m2 ≡ with_parts m2.parts (without_state task m)
      → m3 ≡ with_lanes (with_jobs m2.lanes lane (jobs_in m2.lanes lane ++ job ∷ [])) m2
      → new ≡ with_state task t m3
      → new ≡ with_state task t (between task m2.parts (with_jobs m.lanes lane (jobs_in m.lanes lane ++ job ∷ [])) m)
  pushed lane job t m2 m3 new a b c =
      c ∙ ap (λ (x : SeenMoves). with_state task t x)
      (b ∙ ap (λ (x : SeenMoves). with_lanes (with_jobs x.lanes lane (jobs_in x.lanes lane ++ job ∷ [])) x) a)

  pub put_back : (t : SeenTask) (m2 new : SeenMoves) → m2 ≡ with_parts m2.parts (without_state task m)
      → new ≡ with_state task t m2 → new ≡ with_state task t (between task m2.parts m.lanes m)
  put_back t m2 new a b = b ∙ ap (λ (x : SeenMoves). with_state task t x) a

  -- ---- a state is put back by its parts

  abbrev by_parts : Option ActSort → Option SeenTask → Option Outcome → Bool → SeenMoves
  by_parts ready slot ended has_ended =
      with_outcome task ended (with_slot task slot (with_fewer has_ended (with_sort task ready m)))

  pub put_by_parts : (t : SeenTask) (ready : Option ActSort) (slot : Option SeenTask) (ended : Option Outcome)
      (has_ended : Bool) (m1 m2 m3 new : SeenMoves) → ready ≡ sort_by t → slot ≡ slot_for t → ended ≡ t.outcome
      → has_ended ≡ is_some ended → m1 ≡ with_sort task ready m → m2 ≡ with_fewer has_ended m1
      → m3 ≡ with_slot task slot m2 → new ≡ with_outcome task ended m3 → new ≡ with_state task t m
  put_by_parts t ready slot ended has_ended m1 m2 m3 new a b c d e f g h =
      h
      ∙ ap (λ (x : SeenMoves). with_outcome task ended x) (g
      ∙ ap (λ (x : SeenMoves). with_slot task slot x) (f ∙ ap (λ (x : SeenMoves). with_fewer has_ended x) e))
      ∙ ap (λ (x : Option ActSort). by_parts x slot ended has_ended) a
      ∙ ap (λ (x : Option SeenTask). by_parts (sort_by t) x ended has_ended) b
      ∙ ap (λ (x : Option Outcome). by_parts (sort_by t) (slot_for t) x has_ended) c
      ∙ ap (λ (x : Bool). by_parts (sort_by t) (slot_for t) t.outcome x) (d ∙ ap (λ (o : Option Outcome). is_some o) c)

  -- ---- where the state can be put back

  pub slots_stay : (m2 : SeenMoves) → m2 ≡ with_parts m2.parts (without_state task m) → length m2.slots ≡ length m.slots
  slots_stay m2 a = ap (λ (x : SeenMoves). length x.slots) a ∙ length-set m.slots task None

  pub unfinished_stay : (m2 : SeenMoves) → m2 ≡ with_parts m2.parts (without_state task m) → m2.unfinished ≡
      m.unfinished
  unfinished_stay m2 a = ap (λ (x : SeenMoves). x.unfinished) a
