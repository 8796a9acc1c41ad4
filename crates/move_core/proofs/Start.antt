-- A run of which nothing happened.
use Rattle.std.proofs.Common.{◌≡◌, ◌∙◌, ℕ, zero, suc, Bool, List, [], Option, Some, None, refl, sym, subst, ap, arith}
use Rattle.std.proofs.Common.{◌<◌, ◌≤◌, ◌^◌, get_or, length, slice_get, if◌then◌else◌}
use Rattle.std.proofs.lemmas.Bool.{le-ltb}
use Rattle.std.specs.Prelude.{replicate}
use Rattle.std.proofs.lemmas.List.{length-replicate}
use Rattle.s3_model.specs.declared.outcomes.Cause.TheVariants as cause
use Rattle.s3_model.specs.declared.outcomes.Outcome.{Outcome}
use Rattle.s3_model.specs.declared.outcomes.Outcome.TheVariants as outcome
use Rattle.act_queues.specs.declared.act_queues.ActSort.{ActSort}
use Rattle.held_parts.specs.declared.held.Held.{Held}
use Rattle.lane_queues.specs.Lanes.{SeenLanes}
use Rattle.manager_moves.proofs.PartLaws.{nothing}
use Rattle.manager_moves.specs.Moves.{made}
use Rattle.manager_moves.specs.Runs.{Shared, lacks_memory}
use Rattle.part_tables.proofs.Tables.{empty_tables_begin}
use Rattle.part_tables.specs.Tables.{IsTableOf}
use Rattle.queue_laws.proofs.LaneLaws.{lanes_begin}
use Rattle.queue_laws.specs.Holding.{HoldLanes}
use Rattle.queue_laws.specs.ReadyActs.{sort_at}
use Rattle.task_acts.specs.declared.work.Work.{Work}
use Rattle.task_acts.specs.Ends.{outcome_of}
use Rattle.task_core.specs.Machine.{SeenTask}
use Rattle.move_core.specs.declared.move_core.Means.{Means}
use Rattle.move_core.specs.Means.{IsSharedBy}
use Rattle.move_laws.specs.Follows.{Follows, outcome_at}
use Rattle.move_laws.specs.Kept.{IsSound, SeenMoves}

none_at : {X : Type 0} (none : X) (count n : ℕ) → get_or (replicate count none) n none ≡ none
none_at none zero n = refl
none_at none (suc count) zero = refl
none_at none (suc count) (suc n) = none_at none count n

abbrev lanes_of : (depth lanes : ℕ) → SeenLanes
lanes_of depth lanes = record { depth = depth; jobs = replicate lanes [] }

-- what is kept of such a run
pub record IsEmpty (count : ℕ) (means : Means) (m : SeenMoves) : Type 0 where
  pub queue : m.queue ≡ means.queue
  pub lanes : m.lanes ≡ lanes_of means.depth means.lanes
  pub acts : m.acts ≡ replicate count None
  pub slots : m.slots ≡ replicate count None
  pub outcomes : m.outcomes ≡ replicate count None
  pub parts_slots : m.parts.slots ≡ replicate means.parts None
  pub parts_count : m.parts.pool.count ≡ means.parts
  pub made : m.made ≡ 0
  pub lined : m.lined ≡ 0
  pub unfinished : m.unfinished ≡ 0
  pub reason : m.reason ≡ None

module _ (count : ℕ) (means : Means) (m : SeenMoves) (empty : IsEmpty count means m) (s : Shared)
    (shared : IsSharedBy count means s) (some : 1 ≤ means.lanes) where
  no_sort : (n : ℕ) → None ≡ sort_at s [] n (slice_get (made s []) n)
  no_sort n = refl

  no_outcome : (n : ℕ) (w : Option Work) → None ≡ outcome_at n w []
  no_outcome n None = refl
  no_outcome n (Some w) = sym (ap (λ (b : Bool). if b then (if lacks_memory n [] then Some (outcome.Failed cause.Memory)
      else outcome_of w []) else None) (le-ltb n 0 (omega arith)))

  pub starts : Follows s [] m
  starts = record {
    count = ap (λ (xs : List (Option SeenTask)). length xs) empty.slots ∙ length-replicate count None
        ∙ sym shared.count_is;
    queue = empty.queue ∙ sym shared.queue_is;
    buffers = empty.parts_count ∙ sym shared.buffers_are;
    some_lane = omega (arith, some, shared.lanes_are);
    lanes = subst (λ (l : SeenLanes). HoldLanes s [] l)
        (ap (λ (d : ℕ). lanes_of d s.lanes) shared.depth_is ∙ ap (λ (n : ℕ). lanes_of means.depth n) shared.lanes_are
        ∙ sym empty.lanes) (lanes_begin s);
    acts = λ n. ap (λ (xs : List (Option ActSort)). get_or xs n None) empty.acts ∙ none_at None count n ∙ no_sort n;
    parts = subst (λ (xs : List (Option Held)). IsTableOf s.works [] xs) (sym empty.parts_slots)
        (empty_tables_begin s.works means.parts);
    made_is = empty.made;
    lined = empty.lined;
    unfinished = empty.unfinished;
    reason = empty.reason;
    outcomes = λ n. ap (λ (xs : List (Option Outcome)). get_or xs n None) empty.outcomes ∙ none_at None count n
        ∙ no_outcome n (slice_get s.works n);
    tasks = λ n w there memory. absurd (nothing there);
    lost = λ n e. ap (λ (xs : List (Option SeenTask)). get_or xs n None) empty.slots ∙ none_at None count n;
  }

pub sound : (count made : ℕ) (acts : List (Option ActSort)) (slots : List (Option SeenTask))
    (outcomes : List (Option Outcome)) → acts ≡ replicate count None → slots ≡ replicate count None
    → outcomes ≡ replicate count None → made ≡ 0 → count < 2 ^ 32 → IsSound acts slots outcomes made
sound count made acts slots outcomes a b c d few =
    let a_long : length acts ≡ count = ap (λ (xs : List (Option ActSort)). length xs) a ∙ length-replicate count None in
    let b_long : length slots ≡ count =
    ap (λ (xs : List (Option SeenTask)). length xs) b ∙ length-replicate count None in
    let c_long : length outcomes ≡ count =
    ap (λ (xs : List (Option Outcome)). length xs) c ∙ length-replicate count None in
    record {
      acts_are = a_long ∙ sym b_long;
      outcomes_are = c_long ∙ sym b_long;
      made_few = omega (arith, b_long, d);
      few = omega (arith, b_long, few);
    }
